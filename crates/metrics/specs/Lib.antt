-- What public clauses cite.
pub mod Bounds
pub mod Histograms
pub mod Denied
pub mod Measured
pub mod Watching
pub mod Lines
pub mod Text
