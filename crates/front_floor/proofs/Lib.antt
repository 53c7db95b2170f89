pub mod Deals
pub mod Logs
pub mod Queue
pub mod Running
pub mod Turns
