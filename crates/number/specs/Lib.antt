-- number: the call Number.
pub mod Number
