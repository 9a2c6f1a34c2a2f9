mod Counted
mod Telling
