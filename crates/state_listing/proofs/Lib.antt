pub mod Names
pub mod Families
