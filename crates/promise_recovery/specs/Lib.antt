-- promise_recovery: demands 2 and 3, and what else is promised of spans.
pub mod Calls
pub mod Demand
pub mod Flat
pub mod Numbers
