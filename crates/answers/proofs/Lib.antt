pub mod Listing
pub mod Sizes
pub mod Names
pub mod LiveTokens
