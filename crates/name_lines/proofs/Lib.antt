pub mod Causes
pub mod Led
pub mod Lists
pub mod Refused
pub mod Served
pub mod Spent
pub mod Written
