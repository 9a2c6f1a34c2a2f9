-- What public clauses cite. docs/DEFINITIONS.md says what to read in which order.
pub mod Drafts
pub mod Faults
pub mod Forms
pub mod Lines
pub mod Operands
pub mod Reports
pub mod Sheets
-- What only the contracts of this crate's own parts and their proofs cite.
pub mod DraftsParts
pub mod SheetsParts
