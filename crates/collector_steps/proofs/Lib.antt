pub mod Firsts
pub mod Shaded
pub mod Slots
pub mod Damage
pub mod Indices
pub mod Found
pub mod Places
pub mod Kept
pub mod Lefts
pub mod Directories
pub mod Maps
pub mod Sweeping
pub mod Written
pub mod Cylinders
pub mod Phases
mod Words
