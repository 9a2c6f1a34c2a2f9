-- What public clauses cite. docs/DEFINITIONS.md says what to read in which order.
pub mod Left
pub mod Narrowing
-- What only the contracts of this crate's own parts and their proofs cite.
pub mod LeftKept
pub mod Codes
pub mod EndedParts
pub mod NarrowingParts
-- Laws, each proved: a reader may skip them.
pub mod ListsLaws
pub mod LeftLaws
pub mod ConsentsLaws
pub mod FormerLaws
pub mod StandingLaws
pub mod RightLaws
pub mod ShortRightLaws
pub mod KeptLaws
