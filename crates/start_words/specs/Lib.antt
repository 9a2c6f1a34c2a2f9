pub mod Numbers
pub mod Options
pub mod Lists
pub mod Start
