mod Copying
mod Begun
