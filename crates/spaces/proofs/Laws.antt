-- Lemmas; no part of the meaning.
pub mod Distance
pub mod DistanceRow
pub mod DistanceReplaced
pub mod Unique
