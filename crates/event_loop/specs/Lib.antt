-- What public clauses cite. docs/DEFINITIONS.md says what to read in which order.
pub mod Done
pub mod Places
pub mod Progress
pub mod Giving
pub mod Noting
pub mod LoopStates
pub mod Coming
pub mod Reading
pub mod Writing
pub mod Closing
pub mod Reporting
pub mod Moments
pub mod Asking
pub mod Served
pub mod Durable
pub mod DurableLaws
pub mod Minutes
pub mod MinutesLaws
pub mod Slices
pub mod SlicesLaws
pub mod Answered
pub mod Sole
pub mod Ends
pub mod EndsLaws
-- What only the contracts of this crate's own parts and their proofs cite.
pub mod GivingParts
pub mod Goes
-- What these files import, passed on.
pub mod Names
