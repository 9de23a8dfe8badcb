-- The laws of `parents`, in the order in which one reads them. Assumes nothing.
pub mod OccurrenceLaws
pub mod PlaceLaws
pub mod TallyLaws
pub mod CopyLaws
