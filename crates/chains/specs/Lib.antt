pub mod Chained
pub mod Before
pub mod Following
pub mod ChainedLaws
