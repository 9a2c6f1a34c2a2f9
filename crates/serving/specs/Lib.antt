-- What public clauses cite. docs/DEFINITIONS.md says what to read in which order.
pub mod Streams
pub mod PieceDraws
pub mod Served
pub mod Talks
pub mod Answered
-- What only the contracts of this crate's own parts and their proofs cite.
pub mod ServedParts
