-- Order 1: its theorems.
pub mod Theorem
pub mod Flat
