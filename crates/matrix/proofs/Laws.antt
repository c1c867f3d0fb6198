-- Lemmas; no part of the meaning.
pub mod Values
pub mod Vector
pub mod VectorRows
pub mod Pivots
pub mod ShapeMatrix
pub mod Walk
