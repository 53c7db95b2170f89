pub mod Creates
pub mod Puts
