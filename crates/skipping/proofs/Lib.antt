-- The laws of `skipping`. Assumes nothing.
pub mod SkipLaws
