pub mod Each
pub mod Joined
