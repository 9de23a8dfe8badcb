-- The definitions of `entrances`, in the order in which one reads them. Assumes nothing.
pub mod Turns
pub mod Steps
