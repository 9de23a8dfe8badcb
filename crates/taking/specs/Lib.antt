-- The definitions of `taking`. Assumes nothing.
pub mod Taking
