pub mod Following
pub mod Going
mod Chance
mod Picking
mod Reading
pub mod Steps
pub mod Staying
pub mod Tearing
pub mod Walking
mod Wholes
mod Zeros
