-- Order 4.
pub mod Theorems
