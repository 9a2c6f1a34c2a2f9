-- What public clauses cite. docs/DEFINITIONS.md says what to read in which order.
pub mod Kept
pub mod Fits
pub mod Found
pub mod Room
pub mod Records
pub mod Kin
pub mod Image
pub mod Lists
-- What only the contracts of this crate's own parts and their proofs cite.
pub mod FitsParts
pub mod RecordsParts
-- Laws, each proved: a reader may skip them.
pub mod FitsLaws
pub mod ListsLaws
pub mod ImageLaws
