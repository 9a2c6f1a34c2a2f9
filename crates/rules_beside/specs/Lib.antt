-- What public clauses cite. docs/DEFINITIONS.md says what to read in which order.
pub mod Places
pub mod Owners
pub mod Beside
-- What only the contracts of this crate's own parts and their proofs cite.
pub mod OwnersParts
pub mod BesideParts
-- Laws, each proved: a reader may skip them.
pub mod OwnersLaws
