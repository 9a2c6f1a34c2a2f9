mod Heirs
mod Lasting
mod Living
mod Losing
mod Planning
mod Telling
pub mod Names
