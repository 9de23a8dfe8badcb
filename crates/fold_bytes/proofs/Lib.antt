-- The laws of `fold_bytes`. Assumes nothing.
pub mod FoldLaws
