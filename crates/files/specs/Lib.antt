-- The definitions of `files`. Assumes nothing.
pub mod Names
