-- text: decimal numerals, and pieces of text put one after the other into a lent buffer.
pub mod Text
pub mod Piece
pub mod Laws
