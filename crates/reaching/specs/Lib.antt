-- The definitions of `reaching`, in the order in which one reads them. Assumes nothing.
pub mod Reaching
pub mod Steps
