pub mod Marking
pub mod Looking
