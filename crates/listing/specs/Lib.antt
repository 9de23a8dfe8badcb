-- The definitions of `listing`, in the order in which one reads them. Assumes nothing.
pub mod Listing
pub mod Steps
pub mod Graphs
