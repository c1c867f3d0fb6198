-- promise_distance: how far apart the spaces of two lists of rows are, as the calls tell it.
pub mod Apart
pub mod Theorem
pub mod Laws
