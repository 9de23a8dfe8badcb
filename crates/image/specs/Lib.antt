-- The definitions of `image`. Assumes nothing.
pub mod Looking
