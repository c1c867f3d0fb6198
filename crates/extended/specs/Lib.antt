-- extended: the numbering by extended representation.
pub mod Extended
pub mod Drawn
pub mod Laws
