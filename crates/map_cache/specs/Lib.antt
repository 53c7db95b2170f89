pub mod Holding
pub mod Cache
