-- Order 9: its theorems.
pub mod Spanned
pub mod Equal
pub mod Theorem
pub mod Fields
pub mod Flat
