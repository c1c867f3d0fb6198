-- reduction: row reduction on lent bytes.
pub mod Padded
pub mod Laws
