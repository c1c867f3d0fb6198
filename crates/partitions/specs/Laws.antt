-- Lemmas; no part of the meaning.
pub mod Less
pub mod Box
pub mod PartitionsLaws
pub mod GaussianPartitions
pub mod BoxTable
pub mod PackedCounts
