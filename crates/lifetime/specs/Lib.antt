-- What public clauses cite. docs/DEFINITIONS.md says what to read in which order.
pub mod Clocks
pub mod Plans
pub mod Given
pub mod Starts
pub mod Serving
pub mod Lives
pub mod Openings
pub mod Found
pub mod Anew
-- What only the contracts of this crate's own parts and their proofs cite.
pub mod PlanParts
-- Laws, each proved: a reader may skip them.
pub mod PlansLaws
-- What these files import, passed on.
pub mod Names
