pub mod Leaves
pub mod Places
pub mod Sums
pub mod Wells
pub mod Unread
pub mod Shades
pub mod Reaches
pub mod Steps
pub mod Condemned
pub mod Changed
pub mod UnreadSteps
pub mod Paces
pub mod Replaced
pub mod Puts
pub mod Sorts
pub mod Asked
mod Words
pub mod Ended
