-- Lemmas; no part of the meaning.
pub mod Chosen
pub mod Either
