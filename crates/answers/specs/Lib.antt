-- What public clauses cite. docs/DEFINITIONS.md says what to read in which order.
pub mod Setting
pub mod Outcomes
pub mod Quotas
pub mod Wants
pub mod Halts
pub mod Requesters
pub mod Texts
pub mod Tokens
pub mod Replies
pub mod Views
pub mod Short
pub mod Told
pub mod Paths
pub mod Tallies
pub mod Found
pub mod Live
-- What only the contracts of this crate's own parts and their proofs cite.
pub mod ToldParts
-- Laws, each proved: a reader may skip them.
pub mod FoundLaws
-- What these files import, passed on.
pub mod Names
