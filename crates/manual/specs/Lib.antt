pub mod Words
pub mod Topics
