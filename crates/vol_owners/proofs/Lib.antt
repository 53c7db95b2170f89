pub mod Sums
pub mod Differ
pub mod Entries
pub mod Standing
pub mod Owned
pub mod Keys
pub mod Drafts
pub mod Taken
pub mod Rooms
pub mod Changes
pub mod Kept
pub mod Owners
pub mod Steps
pub mod Strays
pub mod Differing
mod Words
