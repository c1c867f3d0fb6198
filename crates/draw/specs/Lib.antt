-- draw: the call Draw.
pub mod Draw
pub mod Laws
