-- What public clauses cite.
pub mod ReportTokens
pub mod ToldTokens
