pub mod Sums
pub mod Ranges
pub mod Entries
pub mod Counted
pub mod Miscounts
pub mod Finds
pub mod Lefts
mod Words
pub mod Given
pub mod Takes
