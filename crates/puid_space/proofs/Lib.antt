pub mod Listed
pub mod Tables
pub mod Opened
pub mod Firsts
pub mod Taken
pub mod Graphs
mod Words
