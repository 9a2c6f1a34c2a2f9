-- What public clauses cite. docs/DEFINITIONS.md says what to read in which order.
pub mod Accounts
