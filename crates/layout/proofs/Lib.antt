-- The laws of `layout`, in the order in which one reads them. Assumes nothing.
pub mod ByteLaws
pub mod LengthLaws
pub mod ImageLaws
pub mod Limits
