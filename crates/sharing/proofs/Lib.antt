-- The laws of `sharing`, in the order in which one reads them. Assumes nothing.
pub mod ShareLaws
pub mod Determined
