-- The definitions of `look_bytes`. Assumes nothing.
pub mod Look
