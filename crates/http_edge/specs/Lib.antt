-- What public clauses cite. docs/DEFINITIONS.md says what to read in which order.
pub mod Limits
pub mod Supply
pub mod Answers
pub mod Schedule
pub mod Lanes
pub mod Places
pub mod Sources
pub mod Unread
pub mod Edges
pub mod Reached
pub mod Events
pub mod Refusals
pub mod Chance
pub mod Pieces
-- What only the contracts of this crate's own parts and their proofs cite.
pub mod LanesParts
pub mod PlacesParts
pub mod Rests
pub mod Heard
pub mod EdgesParts
-- What these files import, passed on.
pub mod Names
