-- The definitions of `writing`. Assumes nothing.
pub mod Writing
