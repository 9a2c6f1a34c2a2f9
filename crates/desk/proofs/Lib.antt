pub mod Asking
pub mod Sizes
pub mod Refusals
pub mod Narrowed
