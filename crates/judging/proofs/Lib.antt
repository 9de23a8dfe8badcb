-- The laws of `judging`, in the order in which one reads them. Assumes nothing.
pub mod CountLaws
pub mod JudgeLaws
pub mod Determined
