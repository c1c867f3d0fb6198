-- Lemmas; no part of the meaning.
pub mod Answer
pub mod PutIn
pub mod PutOne
