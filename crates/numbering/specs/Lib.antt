-- numbering: the two numberings side by side.
pub mod Numbering
pub mod Laws
