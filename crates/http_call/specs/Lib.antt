pub mod Sent
pub mod Answers
pub mod Exchanged
