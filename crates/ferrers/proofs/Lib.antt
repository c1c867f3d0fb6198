-- The theorems, and the lemmas that the functions' proofs cite.
pub mod Formula14
pub mod BeforeLaws
pub mod Theorems
pub mod IndexParts
pub mod PlaceOf
pub mod TableauOf
