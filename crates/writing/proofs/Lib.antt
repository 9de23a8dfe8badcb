-- The laws of `writing`, in the order in which one reads them. Assumes nothing.
pub mod WriteLaws
pub mod Determined
