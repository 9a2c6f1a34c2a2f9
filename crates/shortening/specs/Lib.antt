-- What public clauses cite. docs/DEFINITIONS.md says what to read in which order.
pub mod Lists
pub mod Hooks
pub mod Left
pub mod Shortened
pub mod Standing
pub mod Rightness
-- What the program knows while it shortens a list.
pub mod Known
pub mod Steps
-- What is not true, by small histories.
pub mod Traps
-- Laws, each proved: a reader may skip them.
pub mod FilterLaws
pub mod ListsLaws
pub mod HooksLaws
pub mod LeftLaws
pub mod ShortenedLaws
pub mod ClosedLaws
pub mod AlikeLaws
pub mod StandingLaws
pub mod StoreLaws
pub mod StepsLaws
pub mod RightnessLaws
