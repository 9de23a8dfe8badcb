-- The definitions of `vertices`. Assumes nothing.
pub mod Vertices
