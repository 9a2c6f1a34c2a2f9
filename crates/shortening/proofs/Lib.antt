pub mod Noting
pub mod Codes
pub mod Lowering
pub mod Backwards
pub mod Places
