-- convert: the call Convert.
pub mod Convert
pub mod Laws
