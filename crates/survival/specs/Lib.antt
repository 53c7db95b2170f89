pub mod Call
pub mod Trail
pub mod Held
