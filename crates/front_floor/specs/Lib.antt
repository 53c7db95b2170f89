pub mod Knows
pub mod Seats
