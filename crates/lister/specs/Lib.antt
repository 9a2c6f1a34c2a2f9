pub mod Operands
pub mod Slots
