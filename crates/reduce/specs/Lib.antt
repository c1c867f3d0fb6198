-- reduce: the call Reduce.
pub mod Reduce
pub mod Laws
