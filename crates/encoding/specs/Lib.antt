pub mod Spelling
-- Working definitions of proofs: a reader may skip them.
pub mod Opcodes
