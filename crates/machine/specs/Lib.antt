pub mod Frame
pub mod Outcome
pub mod Trace
