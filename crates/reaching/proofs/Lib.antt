-- The laws of `reaching`, in the order in which one reads them. Assumes nothing.
pub mod SpreadLaws
pub mod ReachLaws
