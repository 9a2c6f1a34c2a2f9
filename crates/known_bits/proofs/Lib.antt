pub mod Agreeing
pub mod Witnesses
pub mod Moving
pub mod Results
pub mod Refining
pub mod Names
