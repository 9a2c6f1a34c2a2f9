-- What public clauses cite. docs/DEFINITIONS.md says what to read in which order.
pub mod Telling
pub mod Seen
pub mod Interests
pub mod Sought
pub mod Audience
-- What only the contracts of this crate's own parts and their proofs cite.
pub mod Changed
-- Laws, each proved: a reader may skip them.
pub mod InterestLaws
pub mod AudienceLaws
