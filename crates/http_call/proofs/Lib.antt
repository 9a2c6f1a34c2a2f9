mod Stepped
mod Came
mod Spelled
mod Exchanged
