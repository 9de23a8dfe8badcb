-- The definitions of `staying`. Assumes nothing.
pub mod Staying
