pub mod Cells
pub mod Directory
pub mod Draw
pub mod Kinds
