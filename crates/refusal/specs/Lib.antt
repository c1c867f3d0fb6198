-- refusal: the numbered refusals of document 01.
pub mod Refusal
pub mod Laws
