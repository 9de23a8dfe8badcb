-- The definitions of `in_place`. Assumes nothing.
pub mod InPlace
