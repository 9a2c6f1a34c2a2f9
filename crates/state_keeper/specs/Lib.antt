-- What public clauses cite. docs/DEFINITIONS.md says what to read in which order.
pub mod Seen
pub mod Starting
-- What only the contracts of this crate's own parts and their proofs cite.
pub mod Passing
pub mod PassingSteps
pub mod PassingParts
pub mod Slicing
-- What these files import, passed on.
pub mod Names
