-- The laws of `show_bytes`, in the order in which they are used. Assumes nothing.
pub mod Long
pub mod PutContents
