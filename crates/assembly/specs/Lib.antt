-- What public clauses cite. docs/DEFINITIONS.md says what to read in which order.
pub mod Text
-- Laws, each proved: a reader may skip them.
pub mod TextWordLaws
pub mod TextNameLaws
pub mod TextLaws
