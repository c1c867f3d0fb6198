-- A theorem of Draw.
pub mod DrawLength
