-- counts: the number of spaces and its table. What is believed stands here, what follows or only the code needs below `laws`.
pub mod Gaussian
pub mod Laws
