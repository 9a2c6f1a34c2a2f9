mod Telling
mod Resuming
mod Relived
mod Asking
