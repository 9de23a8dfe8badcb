-- The definitions of `visiting`. Assumes nothing.
pub mod Visits
