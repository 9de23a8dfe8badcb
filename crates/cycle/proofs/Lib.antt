-- The laws of `cycle`, in the order in which one reads them. Assumes nothing.
pub mod ClearLaws
pub mod RootLaws
