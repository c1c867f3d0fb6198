-- line: the lines of the list program, each put together by the line writer.
pub mod Line
