-- What public clauses cite. docs/DEFINITIONS.md says what to read in which order.
pub mod Authentication
-- Laws, each proved: a reader may skip them.
pub mod AuthenticationLaws
pub mod HeaderLaws
