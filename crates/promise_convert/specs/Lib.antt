-- promise_convert: that every drawn matrix has a number in the other numbering, and what that makes of Convert.
pub mod Conversion
