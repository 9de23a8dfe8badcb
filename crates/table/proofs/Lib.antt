-- The laws of `table`, in the order in which one reads them. Assumes nothing.
pub mod RowLaws
pub mod SameRows
pub mod SumLaws
pub mod FrontLaws
pub mod VerdictLaws
pub mod Accepted
pub mod RefusalLaws
