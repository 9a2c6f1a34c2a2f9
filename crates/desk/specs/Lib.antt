-- What public clauses cite.
pub mod Judging
pub mod Candidates
pub mod Beside
pub mod Replies
