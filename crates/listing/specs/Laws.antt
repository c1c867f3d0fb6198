-- Laws that the proofs cite; no part of the meaning.
pub mod Front
pub mod Line
pub mod Listing
pub mod Steps
pub mod WriteLines
