pub mod Texts
pub mod Headers
pub mod Plain
