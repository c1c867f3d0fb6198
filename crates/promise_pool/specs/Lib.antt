-- promise_pool: what pooling two receivers promises.
pub mod Pooling
pub mod Spaces
pub mod Laws
