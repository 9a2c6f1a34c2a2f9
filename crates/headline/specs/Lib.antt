-- What public clauses cite. docs/DEFINITIONS.md says what to read in which order.
pub mod Calls
pub mod Headline
pub mod Conversations
pub mod Answering
pub mod SafeHooks
pub mod Occasions
pub mod Bearers
pub mod Grants
pub mod Activity
pub mod Codes
pub mod Uses
pub mod Authority
pub mod Leaving
pub mod Redirects
pub mod Hooked
pub mod Decided
pub mod Drawn
pub mod Audited
-- What only the contracts of this crate's own parts and their proofs cite.
pub mod Making
-- What these files import, passed on.
pub mod Names
