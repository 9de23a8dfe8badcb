-- The laws of `listing`, in the order in which one reads them. Assumes nothing.
pub mod ListLaws
pub mod ScanLaws
pub mod SoundList
pub mod Determined
