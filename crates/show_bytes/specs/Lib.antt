-- The definitions of `show_bytes`. Assumes nothing.
pub mod Show
