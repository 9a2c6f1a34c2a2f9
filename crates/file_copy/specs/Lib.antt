-- What only the contracts of this crate's own parts and their proofs cite.
pub mod Copies
