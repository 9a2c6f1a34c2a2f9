-- What public clauses cite. docs/DEFINITIONS.md says what to read in which order.
pub mod Answers
pub mod Asking
pub mod Back
pub mod BytesTold
pub mod Explanations
pub mod File
pub mod HexText
pub mod Judge
pub mod Printed
pub mod Reading
pub mod Ways
-- What only the contracts of this crate's own parts and their proofs cite.
pub mod WaySteps
-- What these files import, passed on.
pub mod Names
