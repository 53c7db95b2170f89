pub mod Grants
pub mod Parts
pub mod Model
