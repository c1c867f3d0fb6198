-- Lemmas; no part of the meaning.
pub mod Code
pub mod RowRead
pub mod Ended
pub mod After
pub mod Tells
pub mod Whole
