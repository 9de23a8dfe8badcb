-- The definitions of `table`, in the order in which one reads them. Assumes nothing.
pub mod Limits
pub mod Table
pub mod Verdict
pub mod Numbers
pub mod Refusals
pub mod Lent
