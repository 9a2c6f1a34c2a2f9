pub mod Numbers
pub mod Writing
pub mod Runs
pub mod Telling
pub mod Names
