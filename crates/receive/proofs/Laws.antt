-- Lemmas; no part of the meaning.
pub mod Space
pub mod ReceiveAccepted
