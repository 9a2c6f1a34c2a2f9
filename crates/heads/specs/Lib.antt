-- What public clauses cite. docs/DEFINITIONS.md says what to read in which order.
pub mod Limits
pub mod ContentLength
pub mod Fields
pub mod Message
pub mod Waiting
pub mod Places
pub mod Front
pub mod Scan
-- What only the contracts of this crate's own parts and their proofs cite.
pub mod PlacesParts
-- Laws, each proved: a reader may skip them.
pub mod ReadingLaws
pub mod WaitingLaws
