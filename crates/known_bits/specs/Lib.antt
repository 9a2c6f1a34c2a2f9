-- What public clauses cite. docs/DEFINITIONS.md says what to read in which order.
pub mod Members
pub mod Exact
pub mod Refined
-- What only the contracts of this crate's own parts and their proofs cite.
pub mod Moves
-- Laws, each proved: a reader may skip them.
pub mod MemberLaws
