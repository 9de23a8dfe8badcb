-- The definitions of `rule`, in the order in which one reads them. Assumes nothing.
pub mod Lists
pub mod Kept
pub mod Fold
pub mod Rings
pub mod Way
pub mod Laws
pub mod Tables
pub mod Next
