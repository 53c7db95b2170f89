pub mod Rows
pub mod Overlays
pub mod SlotBytes
pub mod Contents
pub mod Given
pub mod HeldNumbers
pub mod Fits
pub mod Written
pub mod Resized
pub mod Slotted
pub mod ReadParts
pub mod Between
pub mod Tops
mod Words
