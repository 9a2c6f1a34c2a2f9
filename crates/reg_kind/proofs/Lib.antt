pub mod Readings
pub mod Shifts
pub mod Results
pub mod Places
pub mod Names
