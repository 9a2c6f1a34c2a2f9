-- What public clauses cite. docs/DEFINITIONS.md says what to read in which order.
pub mod Crashes
pub mod Faults
pub mod Frames
pub mod Tears
pub mod Coincidences
pub mod Readers
-- What only the contracts of this crate's own parts and their proofs cite.
pub mod Reads
pub mod ReadersParts
-- Laws, each proved: a reader may skip them.
pub mod CrashesLaws
pub mod FramesLaws
