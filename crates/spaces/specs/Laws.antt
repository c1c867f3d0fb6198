-- Lemmas; no part of the meaning.
pub mod Append
pub mod Image
pub mod Beside
pub mod RightRows
pub mod Halves
pub mod Common
pub mod Joint
pub mod Growing
pub mod Dimensions
