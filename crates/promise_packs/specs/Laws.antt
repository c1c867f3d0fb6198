-- Lemmas; no part of the meaning.
pub mod Turns
pub mod Refuses
