-- The theorems, and the lemmas of pieces.
pub mod Theorems
pub mod Piece
