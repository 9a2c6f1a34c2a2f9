pub mod Places
pub mod Placed
pub mod Digits
pub mod Listed
pub mod Data
pub mod Names
pub mod Later
