-- promise_batch: records that are drawn in one call come back, and list every matrix once.
pub mod Theorem
