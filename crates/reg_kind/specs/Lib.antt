pub mod Fits
pub mod Spans
pub mod Operations
pub mod Accesses
