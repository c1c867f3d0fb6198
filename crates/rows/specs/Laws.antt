-- Lemmas; no part of the meaning.
pub mod Steps
pub mod Write
pub mod Puts
pub mod Factor
pub mod AddScaled
pub mod Adding
pub mod AddingEach
pub mod Raise
pub mod Monic
pub mod Scaled
