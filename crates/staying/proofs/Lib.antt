-- The laws of `staying`, in the order in which one reads them. Assumes nothing.
pub mod StayingLaws
pub mod LaidRows
pub mod TableLaws
pub mod Determined
