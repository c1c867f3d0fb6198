-- Lemmas; no part of the meaning.
pub mod ReduceAccepted
pub mod ReduceRows
pub mod RowList
