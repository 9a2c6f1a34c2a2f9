-- What public clauses cite. docs/DEFINITIONS.md says what to read in which order.
pub mod Proof
pub mod Token
-- Laws, each proved: a reader may skip them.
pub mod TokenLaws
