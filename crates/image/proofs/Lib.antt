-- The laws of `image`, in the order in which one reads them. Assumes nothing.
pub mod LookLaws
pub mod LoadLaws
pub mod Determined
