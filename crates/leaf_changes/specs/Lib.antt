pub mod Bytes
pub mod Leaves
pub mod Gives
pub mod Changes
pub mod Tops
