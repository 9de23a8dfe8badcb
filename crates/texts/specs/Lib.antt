-- The definitions of `texts`. Assumes nothing.
pub mod Text
