pub mod Known
pub mod Made
mod Moved
mod Waited
mod Told
mod Settled
pub mod Looked
mod Forgotten
mod Again
pub mod True
