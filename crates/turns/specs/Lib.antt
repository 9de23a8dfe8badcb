-- The definitions of `turns`. Assumes nothing.
pub mod Turns
