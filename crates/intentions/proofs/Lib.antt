pub mod Valid
pub mod Courses
pub mod Changes
pub mod Committed
pub mod Settling
pub mod Turned
pub mod Settled
pub mod Reading
pub mod Shown
pub mod Drafts
mod Words
pub mod Loaded
pub mod Runs
