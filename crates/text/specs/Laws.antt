-- Laws that the proofs cite; no part of the meaning.
pub mod Numeral
