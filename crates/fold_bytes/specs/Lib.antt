-- The definitions of `fold_bytes`. Assumes nothing.
pub mod Image
