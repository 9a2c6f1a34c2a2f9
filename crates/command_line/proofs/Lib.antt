mod Failing
mod Hooking
mod Listing
mod Naming
mod Outcomes
mod Placing
mod Serving
mod Telling
pub mod Names
