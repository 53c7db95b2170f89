pub mod Left
pub mod Space
pub mod Counts
pub mod Maps
pub mod Refusals
pub mod Enters
pub mod Known
