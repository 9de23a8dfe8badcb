-- The definitions of `sharing`. Assumes nothing.
pub mod Sharing
