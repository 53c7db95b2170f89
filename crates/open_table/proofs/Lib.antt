pub mod Keys
pub mod Lists
pub mod Collide
pub mod Tied
pub mod Without
mod Faults
mod Models
mod Words
