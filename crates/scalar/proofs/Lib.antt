pub mod Singles
pub mod Same
pub mod Narrowing
