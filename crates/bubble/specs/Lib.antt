-- The definitions of `bubble`, in the order in which one reads them. Assumes nothing.
pub mod Superbubble
pub mod Cycle
pub mod Distinct
pub mod Ring
