-- spaces: the joint and the common space of two lists of rows, and how far the two spans are apart.
pub mod Spaces
pub mod Distance
pub mod Laws
