pub mod Moving
pub mod Popping
pub mod Removing
pub mod Walking
