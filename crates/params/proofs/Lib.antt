pub mod Masks
pub mod Reading
pub mod Replaced
pub mod Tokens
pub mod Written
pub mod Taken
pub mod Names
pub mod Plain
