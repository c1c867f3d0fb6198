-- distance: the call that tells how far the spans of two lists of rows are apart.
pub mod Distance
pub mod Laws
