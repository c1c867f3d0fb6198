-- Lemmas; no part of the meaning.
pub mod Fill
pub mod Stack
