mod Leading
mod Named
mod Listed
