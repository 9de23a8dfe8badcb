-- The definitions of `cycle`. Assumes nothing.
pub mod Testing
