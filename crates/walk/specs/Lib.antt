-- walk: the test of a matrix on one walk.
pub mod Walk
pub mod Tells
pub mod Laws
