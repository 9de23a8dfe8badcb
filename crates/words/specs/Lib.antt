-- The definitions of `words`. Assumes nothing.
pub mod Decimal
