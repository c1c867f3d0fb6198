-- Lemmas that need no place in specs/.
pub mod Laws
