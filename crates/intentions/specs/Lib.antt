pub mod Entries
pub mod Course
pub mod Commit
pub mod Calls
pub mod Store
pub mod Turned
pub mod Left
pub mod Runs
