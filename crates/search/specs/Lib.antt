-- The definitions of `search`, in the order in which one reads them. Assumes nothing.
pub mod Search
pub mod Steps
