pub mod Fills
pub mod Swapped
