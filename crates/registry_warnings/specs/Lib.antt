pub mod Names
pub mod Warnings
