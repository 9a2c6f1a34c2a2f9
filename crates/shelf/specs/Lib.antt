pub mod Keeping
pub mod Tallying
pub mod Seated
pub mod Shelved
pub mod Looking
pub mod Standing
pub mod Racked
-- Laws, each proved: a reader may skip them.
pub mod StandingLaws
