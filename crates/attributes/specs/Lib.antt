-- The definitions of `attributes`. Assumes nothing.
pub mod Paths
