pub mod Ways
pub mod Cases
pub mod Landing
mod HexReading
