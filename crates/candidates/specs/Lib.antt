-- The definitions of `candidates`, in the order in which one reads them. Assumes nothing.
pub mod Candidates
pub mod Steps
