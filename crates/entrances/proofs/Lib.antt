-- The laws of `entrances`, in the order in which one reads them. Assumes nothing.
pub mod TurnLaws
pub mod EntranceLaws
