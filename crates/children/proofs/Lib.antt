-- The laws of `children`, and that its contract determines the result. Assumes nothing.
pub mod ChoiceLaws
pub mod Determined
