-- The definitions of `layout`, in the order in which one reads them. Assumes nothing.
pub mod Bytes
pub mod Lengths
pub mod Image
