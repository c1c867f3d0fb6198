-- Lemmas; no part of the meaning.
pub mod TwoLists
pub mod Held
pub mod Refused
pub mod Carried
