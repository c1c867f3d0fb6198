-- The theorems, and the lemmas that they cite.
pub mod Laws
pub mod Theorem
pub mod Promises
pub mod FlatTheorem
pub mod NumbersTheorem
