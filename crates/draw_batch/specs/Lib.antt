-- draw_batch: Draw over a list of indexes.
pub mod Batch
pub mod Places
pub mod Laws
