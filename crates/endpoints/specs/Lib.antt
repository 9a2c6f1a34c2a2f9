-- What public clauses cite. docs/DEFINITIONS.md says what to read in which order.
pub mod Answer
pub mod Answered
pub mod Layouts
pub mod Hosts
pub mod Authorize
pub mod ConsentPath
pub mod Revoke
pub mod Introspect
pub mod HookPaths
pub mod OwnerPath
pub mod Documents
pub mod Ruling
pub mod Replies
pub mod Bounded
pub mod Reading
pub mod Server
pub mod Noting
pub mod Making
pub mod Rulings
pub mod Widening
pub mod Right
pub mod Faults
pub mod Remaking
pub mod Redo
pub mod Steps
pub mod Telling
pub mod Listing
-- What only the contracts of this crate's own parts and their proofs cite.
pub mod Parts
pub mod HookAsking
pub mod RulingParts
pub mod MakingParts
pub mod RulingsParts
-- Laws, each proved: a reader may skip them.
pub mod BoundedLaws
pub mod WideningLaws
-- What these files import, passed on.
pub mod Names
pub mod Vocabulary
