-- linear: linear combinations, spans, and the one reduced matrix of a span.
pub mod Span
pub mod Eliminate
pub mod Laws
