-- What public clauses cite. docs/DEFINITIONS.md says what to read in which order.
pub mod Domain
pub mod Sets
pub mod Conditions
pub mod Widths
pub mod Places
pub mod Unsigned
pub mod Signed
pub mod Half
-- What only the contracts of this crate's own parts and their proofs cite.
pub mod ConditionsParts
pub mod WidthsParts
pub mod UnsignedParts
pub mod HalfParts
-- Laws, each proved: a reader may skip them.
pub mod MemberLaws
pub mod ConditionLaws
-- What these files import, passed on.
pub mod Names
