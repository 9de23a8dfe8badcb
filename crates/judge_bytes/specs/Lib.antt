-- The definitions of `judge_bytes`. Assumes nothing.
pub mod Line
