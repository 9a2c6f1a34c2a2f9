-- What public clauses cite. docs/DEFINITIONS.md says what to read in which order.
pub mod Grants
pub mod Exchange
pub mod Refresh
pub mod ClientCredentials
pub mod TokenPath
pub mod Asks
pub mod AsksParts
-- What only the contracts of this crate's own parts and their proofs cite.
pub mod Issuing
pub mod Parts
-- Laws, each proved: a reader may skip them.
pub mod AskLaws
pub mod DenialLaws
-- What these files import, passed on.
pub mod Names
