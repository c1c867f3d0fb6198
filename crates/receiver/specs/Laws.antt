-- Lemmas; no part of the meaning.
pub mod Sound
pub mod Held
pub mod Untouched
pub mod WellFormed
pub mod TakeAccepted
