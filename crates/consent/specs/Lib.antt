-- What public clauses cite. docs/DEFINITIONS.md says what to read in which order.
pub mod Limits
pub mod Owners
pub mod Versions
pub mod History
pub mod Consents
pub mod Changes
pub mod Seen
pub mod Facts
pub mod RecordFacts
pub mod Formats
pub mod RecordFormats
-- What only the contracts of this crate's own parts and their proofs cite.
pub mod Covered
pub mod Growth
-- Laws, each proved: a reader may skip them.
pub mod ListLaws
pub mod GrowthLaws
pub mod HistoryLaws
pub mod CoveredLaws
pub mod ConsentLaws
pub mod LeavingLaws
pub mod SeenLaws
