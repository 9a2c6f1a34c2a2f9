pub mod Changing
pub mod Less
pub mod OfLeft
pub mod Names
