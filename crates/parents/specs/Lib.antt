-- The definitions of `parents`. Assumes nothing.
pub mod Parents
