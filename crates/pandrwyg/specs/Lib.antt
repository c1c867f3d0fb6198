-- pandrwyg: the functions for C.
pub mod Exported
pub mod Laws
