-- promise_packs: a receiver belongs to a pack, and the rows of another leave no trace in it.
pub mod Packs
pub mod Laws
pub mod Theorem
