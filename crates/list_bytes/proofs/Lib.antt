-- The laws of `list_bytes`. Assumes nothing.
pub mod Long
pub mod Ready
