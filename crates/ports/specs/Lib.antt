-- What public clauses cite.
pub mod Faults
pub mod Listening
pub mod Passing
