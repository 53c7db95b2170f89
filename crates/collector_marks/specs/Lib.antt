pub mod Bits
pub mod Kept
