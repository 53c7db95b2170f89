pub mod Words
mod Added
mod Drafts
mod Makings
mod Roots
