-- What public clauses cite. docs/DEFINITIONS.md says what to read in which order.
pub mod Links
pub mod Narrowed
-- What only the contracts of this crate's own parts and their proofs cite.
pub mod LinksParts
-- What these files import, passed on.
pub mod Names
