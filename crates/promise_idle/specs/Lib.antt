-- promise_idle: what Take answers of a row, and that zero rows never harm a record.
pub mod Idle
