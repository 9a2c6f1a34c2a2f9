-- What public clauses cite. docs/DEFINITIONS.md says what to read in which order.
pub mod Numbers
pub mod Pieces
pub mod Lines
pub mod Events
pub mod Called
pub mod Faults
pub mod Replays
pub mod Seen
-- What only the contracts of this crate's own parts and their proofs cite.
pub mod Running
pub mod SeenParts
