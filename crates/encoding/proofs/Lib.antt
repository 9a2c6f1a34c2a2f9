pub mod Spellings
pub mod Rereading
pub mod Naming
pub mod Reading
pub mod Names
