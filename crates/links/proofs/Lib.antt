pub mod Linked
-- What these files import, passed on.
pub mod Names
