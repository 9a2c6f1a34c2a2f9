-- What public clauses cite. docs/DEFINITIONS.md says what to read in which order.
pub mod Facts
pub mod Formats
pub mod Spelling
-- What only the contracts of this crate's own parts and their proofs cite.
pub mod FactsParts
-- Laws, each proved: a reader may skip them.
pub mod SpellingLaws
