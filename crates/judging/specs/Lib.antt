-- The definitions of `judging`, in the order in which one reads them. Assumes nothing.
pub mod Judging
pub mod Steps
