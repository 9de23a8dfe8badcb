-- The laws of `vertices`, in the order in which one reads them. Assumes nothing.
pub mod NumberLaws
pub mod BitLaws
pub mod SetLaws
pub mod Determined
