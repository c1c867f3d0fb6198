-- matrix: a matrix as bytes, what it is to be reduced, and its peeled shape.
pub mod Matrix
pub mod Shape
pub mod Laws
