-- What public clauses cite. docs/DEFINITIONS.md says what to read in which order.
pub mod Calls
pub mod Endings
pub mod Faults
pub mod Hooks
pub mod Listening
pub mod Makings
pub mod Services
pub mod Startings
pub mod StateCommands
pub mod ListCommands
pub mod ListFaults
pub mod ListKeys
pub mod ListEndings
pub mod StateEndings
-- What these files import, passed on.
pub mod Names
-- What only the contracts of this crate's own parts and their proofs cite.
pub mod Places
