mod Digits
mod LineLemmas
mod Lookups
mod Naming
mod Readings
pub mod WordLemmas
