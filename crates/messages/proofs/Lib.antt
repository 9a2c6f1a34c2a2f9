mod Printing
mod Joining
mod Rows
