pub mod Label
pub mod Vectors
