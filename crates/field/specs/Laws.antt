-- Lemmas; no part of the meaning.
pub mod Decide
pub mod Small
pub mod Kinds
pub mod Polynomials
pub mod Reciprocal
pub mod Inverses
