-- The laws of `kept`, in the order in which one reads them. Assumes nothing.
-- the best child of each visited vertex, the last first
pub mod OrderLaws
pub mod CountLaws
pub mod SettleLaws
pub mod LeadLaws
-- the kept vertices parted from the dropped ones, the first first
pub mod PassLaws
pub mod PathLaws
-- the contract, and that it determines the result
pub mod KeepLaws
pub mod DoneLaws
