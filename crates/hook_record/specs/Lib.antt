-- What public clauses cite. docs/DEFINITIONS.md says what to read in which order.
pub mod Record
pub mod Narrowing
-- Laws, each proved: a reader may skip them.
pub mod NarrowingLaws
