-- What public clauses cite. docs/DEFINITIONS.md says what to read in which order.
pub mod Calls
pub mod Faults
pub mod Moments
-- What only the contracts of this crate's own parts and their proofs cite.
pub mod CallsParts
pub mod Folders
