-- The laws of `judge_bytes`. Assumes nothing.
pub mod JudgementLaws
