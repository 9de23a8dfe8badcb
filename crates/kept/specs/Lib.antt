-- The definitions of `kept`, in the order in which one reads them. Assumes nothing.
pub mod Keeping
pub mod Steps
