pub mod Going
pub mod Runs
