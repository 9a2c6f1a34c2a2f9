-- What public clauses cite. docs/DEFINITIONS.md says what to read in which order.
pub mod Reading
pub mod Format
pub mod Lists
pub mod Whole
