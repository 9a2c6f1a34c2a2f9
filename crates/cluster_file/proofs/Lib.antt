mod Laid
mod Made
mod Left
mod Runs
pub mod Kept
pub mod Laying
mod Zeros
mod Synced
pub mod Places
mod Reading
mod Looking
mod Since
mod After
pub mod Going
mod Torn
mod Roomy
mod Proceeding
mod Putting
mod Written
mod Dropping
mod Besides
pub mod Nexts
mod Placing
mod Learning
mod Noting
mod Parting
mod InTurn
mod LetGo
mod Merged
mod Ending
mod Causes
