pub mod Room
pub mod NameTable
pub mod Language
pub mod Read
