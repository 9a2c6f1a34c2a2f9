-- What public clauses cite. docs/DEFINITIONS.md says what to read in which order.
pub mod Hooks
pub mod Tied
