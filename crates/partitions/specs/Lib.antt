-- partitions: the counts of Ferrers diagrams in a box. What is believed stands here, what follows or only the code needs below `laws`.
pub mod Partitions
pub mod Laws
