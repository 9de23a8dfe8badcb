-- The definitions of `printing`, in the order in which one reads them. Assumes nothing.
pub mod Put
pub mod Answered
