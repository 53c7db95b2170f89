pub mod Words
pub mod Indices
mod Begun
mod Filling
mod Making
