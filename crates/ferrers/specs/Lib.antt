-- ferrers: the numbering by Ferrers diagrams.
pub mod Ferrers
pub mod Drawn
pub mod Laws
