-- Lemmas; no part of the meaning.
pub mod PoolAccepted
pub mod Pooling
pub mod Join
pub mod CommonRows
