-- pool: two receivers pooled.
pub mod Pool
pub mod Laws
