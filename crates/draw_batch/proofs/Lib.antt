-- The theorems, and the lemmas of parts.
pub mod DrawParts
pub mod Drawing
pub mod Theorems
pub mod One
