-- The laws of `printing`, in the order in which one reads them. Assumes nothing.
pub mod Digits
pub mod PutLaws
pub mod AnsweredLaws
pub mod Determined
