-- listing: the text of the list program, and the steps by which it is written.
pub mod Line
pub mod Listing
pub mod Front
pub mod Steps
pub mod Theorems
pub mod Laws
