-- The words of the promises. Assumes nothing.
pub mod Images
pub mod Lines
pub mod RoundTrip
pub mod InARow
pub mod Calls
pub mod Runs
pub mod Weakest
pub mod Worked
