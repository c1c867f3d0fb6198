-- Lemmas; no part of the meaning.
pub mod Formed
pub mod TakeTold
pub mod TakenIn
