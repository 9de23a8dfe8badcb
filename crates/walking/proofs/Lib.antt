-- The laws of `walking`, in the order in which one reads them. Assumes nothing.
pub mod SumLaws
pub mod WaitLaws
pub mod WalkLaws
pub mod ShownLaws
pub mod Determined
