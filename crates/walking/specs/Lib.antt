-- The definitions of `walking`. Assumes nothing.
pub mod Walking
