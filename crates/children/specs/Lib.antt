-- The definitions of `children`. Assumes nothing.
pub mod Children
