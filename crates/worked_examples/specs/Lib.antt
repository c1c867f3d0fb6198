-- worked_examples: tables of calls with what each must answer.
pub mod Answer
pub mod Marked
pub mod Readings
pub mod Refusals
pub mod Hold
