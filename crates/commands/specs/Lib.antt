-- What public clauses cite. docs/DEFINITIONS.md says what to read in which order.
pub mod Answers
pub mod Config
pub mod Faults
pub mod Help
pub mod NamedFiles
pub mod Outputs
pub mod Performed
pub mod Registries
pub mod States
pub mod Statuses
pub mod Transcripts
pub mod Words
-- What only the contracts of this crate's own parts and their proofs cite.
pub mod StatusesParts
