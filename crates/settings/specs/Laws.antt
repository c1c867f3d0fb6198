-- Lemmas; no part of the meaning.
pub mod Accepted
pub mod Listable
