mod Lines
mod Clear
pub mod Back
mod Words
