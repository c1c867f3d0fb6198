-- Lemmas; no part of the meaning.
pub mod FittingRows
pub mod HoldRows
pub mod Course
pub mod After
pub mod Reachable
pub mod Space
pub mod LittleEndian
pub mod RecoverRows
pub mod Whole
