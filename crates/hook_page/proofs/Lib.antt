mod Names
mod Parts
mod Places
mod Steps
mod Bytes
mod Runs
