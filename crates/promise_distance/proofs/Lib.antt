-- Order 10, flat.
pub mod Flat
