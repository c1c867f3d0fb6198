-- field: the arithmetic of the field with q elements, and the laws that it obeys.
pub mod Polynomial
pub mod Field
pub mod FieldLaws
pub mod Laws
