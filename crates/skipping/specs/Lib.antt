-- The definitions of `skipping`. Assumes nothing.
pub mod Skipping
