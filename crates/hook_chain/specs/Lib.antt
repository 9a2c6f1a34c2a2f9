-- What public clauses cite. docs/DEFINITIONS.md says what to read in which order.
pub mod Exits
pub mod Chains
pub mod Turns
-- Laws, each proved: a reader may skip them.
pub mod ExitLaws
pub mod ChainLaws
pub mod TurnLaws
