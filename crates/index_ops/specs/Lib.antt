pub mod Causes
pub mod Changes
pub mod Creates
pub mod Reads
