-- What public clauses cite. docs/DEFINITIONS.md says what to read in which order.
pub mod Decisions
pub mod Verdicts
pub mod Names
pub mod Checks
pub mod Faults
-- Laws, each proved: a reader may skip them.
pub mod DecisionLaws
