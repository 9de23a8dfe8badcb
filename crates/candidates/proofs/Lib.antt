-- The laws of `candidates`, in the order in which one reads them. Assumes nothing.
pub mod EntranceLaws
pub mod RuleOutLaws
pub mod PassLaws
pub mod ScanLaws
pub mod FoundLaws
