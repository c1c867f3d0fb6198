-- Lemmas; no part of the meaning.
pub mod DistanceAccepted
pub mod Joint
