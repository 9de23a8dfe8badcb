-- The definitions of `list_bytes`. Assumes nothing.
pub mod Lines
