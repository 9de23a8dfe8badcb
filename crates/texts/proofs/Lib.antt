-- The laws of texts, in the order in which one reads them. Assumes nothing.
pub mod All
pub mod Decimal
pub mod VersionLaws
pub mod LineLaws
pub mod EachLaws
pub mod Examples
pub mod Plain
pub mod Splitting
pub mod FirstWord
pub mod Determined
