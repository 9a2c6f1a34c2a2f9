-- What public clauses cite.
pub mod Limits
pub mod Faults
pub mod Spots
pub mod Json
pub mod Texts
pub mod ScopeFaults
pub mod FaultsParts
-- What these files import, passed on.
pub mod Names
