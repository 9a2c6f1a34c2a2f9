-- What public clauses cite. docs/DEFINITIONS.md says what to read in which order.
pub mod Asked
pub mod Target
pub mod MediaType
pub mod Live
pub mod Members
pub mod Reply
pub mod Written
pub mod Small
-- What a reply is made of, of which callers see the two parts.
pub mod Contents
-- Laws, each proved: a reader may skip them.
pub mod SizeLaws
pub mod SmallLaws
