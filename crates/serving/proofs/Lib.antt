pub mod Pieces
pub mod Following
pub mod Exchanging
pub mod Talking
