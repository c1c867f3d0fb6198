-- Lemmas; no part of the meaning.
pub mod Steps
pub mod LeadsRead
pub mod Residue
pub mod PutAmong
pub mod ClearAbove
pub mod Leads
pub mod InSpan
pub mod InsertResidue
pub mod Insert
pub mod InsertRows
