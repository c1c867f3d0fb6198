-- Lemmas; no part of the meaning.
pub mod ShapeRank
pub mod ShapeCount
pub mod Formula
pub mod Order
pub mod Theorems
pub mod Part
pub mod Rank
pub mod Unrank
