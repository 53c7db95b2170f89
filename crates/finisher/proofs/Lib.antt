pub mod Going
pub mod Calls
pub mod Finished
pub mod Runs
pub mod AtOnce
