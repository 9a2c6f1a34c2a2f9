-- What public clauses cite. docs/DEFINITIONS.md says what to read in which order.
pub mod Limits
pub mod Form
pub mod Scope
-- Laws, each proved: a reader may skip them.
pub mod FormLaws
pub mod ScopeLaws
