-- receiver: the calls Start, Take and Close.
pub mod Receiver
pub mod Laws
