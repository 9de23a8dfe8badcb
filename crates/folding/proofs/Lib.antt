-- The laws of `folding`, in the order in which one reads them. Assumes nothing.
pub mod DoneLaws
pub mod RingLaws
pub mod Demand
