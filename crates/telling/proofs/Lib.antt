pub mod Changing
pub mod Denying
pub mod Revoking
pub mod Showing
