-- rows_text: the rows of a matrix as text.
pub mod Rows
pub mod Laws
