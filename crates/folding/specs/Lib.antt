-- The definitions of `folding`, in the order in which one reads them. Assumes nothing.
pub mod Folding
pub mod Steps
