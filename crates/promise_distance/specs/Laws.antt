-- Lemmas; no part of the meaning.
pub mod Refused
pub mod Rows
pub mod Told
pub mod Held
pub mod OneCall
