-- drawing: what is given for an index.
pub mod Drawing
pub mod Laws
