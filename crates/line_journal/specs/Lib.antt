-- What the contracts of this crate's own parts and their proofs cite.
pub mod NoticeTexts
pub mod AuditTexts
pub mod Auditing
pub mod Reporting
