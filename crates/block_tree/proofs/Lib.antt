pub mod Numbers
pub mod Bytes
pub mod Fields
pub mod Spellings
pub mod Trees
pub mod Faults
pub mod Walks
mod Rows
pub mod Steps
pub mod RootSteps
pub mod Nodes
mod Words
pub mod Ways
pub mod Descents
pub mod Follows
