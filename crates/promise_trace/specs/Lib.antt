-- promise_trace: of the rows that it accepted, a receiver keeps the span and nothing else.
pub mod Trace
