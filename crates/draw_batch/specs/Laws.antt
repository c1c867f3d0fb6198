-- Lemmas; no part of the meaning.
pub mod BatchAccepted
