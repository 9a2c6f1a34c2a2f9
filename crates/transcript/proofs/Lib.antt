pub mod Drawing
pub mod Stating
pub mod Feeds
pub mod Stated
pub mod Calling
pub mod Printing
pub mod Failing
pub mod Names
