-- Laws of the counts, and the lists that the code reads; no part of the meaning.
pub mod GaussianLaws
pub mod Nearer
pub mod Halves
pub mod Powers
