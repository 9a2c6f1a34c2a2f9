pub mod Last
pub mod Utf8
