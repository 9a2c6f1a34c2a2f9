-- What public clauses cite.
pub mod Calls
