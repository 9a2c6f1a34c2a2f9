-- What public clauses cite. docs/DEFINITIONS.md says what to read in which order.
pub mod Standing
pub mod Telling
pub mod Comparing
pub mod Hooks
pub mod Listing
pub mod Resuming
pub mod Runs
pub mod Making
pub mod Faults
pub mod Knowing
pub mod Renewing
-- What only the contracts of this crate's own parts and their proofs cite.
pub mod MakingParts
pub mod Remaking
pub mod Going
pub mod ShortParts
-- Laws, each proved: a reader may skip them.
pub mod StandingLaws
pub mod TellingLaws
pub mod BoundsLaws
pub mod HookLaws
pub mod ResumingLaws
pub mod ReplayingLaws
pub mod RunLaws
pub mod HorizonLaws
pub mod KnownLaws
pub mod LengthLaws
pub mod ShortLaws
-- What these files import, passed on.
pub mod Names
