pub mod Listening
pub mod Calls
pub mod Noting
pub mod Seeds
pub mod Begun
pub mod ByCount
pub mod Timing
pub mod Starts
pub mod Reloading
pub mod Scraping
pub mod Reliving
pub mod Onward
-- What only the contracts of this crate's own parts and their proofs cite.
pub mod CallsParts
