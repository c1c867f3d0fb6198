-- Lemmas; no part of the meaning.
pub mod WriteAnswer
pub mod ExportedAccepted
