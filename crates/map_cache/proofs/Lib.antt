pub mod Entries
pub mod Holdings
