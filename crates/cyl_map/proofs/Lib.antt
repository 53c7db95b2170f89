pub mod Entries
pub mod FreeEntries
pub mod Mapped
pub mod Maps
pub mod Narrow
pub mod RowReads
pub mod Rows
pub mod Volumes
mod Words
