-- Laws that the proofs cite; no part of the meaning.
pub mod Decimal
pub mod LineAt
pub mod Marked
pub mod Numeral
pub mod Parse
pub mod ReadDigits
pub mod Run
