-- The laws of `taking`. Assumes nothing.
pub mod TakenLaws
pub mod Determined
