pub mod Stands
pub mod Worlds
pub mod Moves
pub mod Leading
pub mod Bytes
pub mod Sides
pub mod Calls
pub mod Again
pub mod Knowing
-- Laws, each proved: a reader may skip them.
pub mod CallsLaws
