mod Digits
mod Each
mod Texts
