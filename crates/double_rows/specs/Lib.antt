-- double_rows: bytes that hold rows of double width; what they mean is in spaces.
pub mod Laws
