pub mod Needs
pub mod WriteRuns
pub mod Writes
