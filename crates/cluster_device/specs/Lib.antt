pub mod Failing
pub mod Counting
pub mod Sources
