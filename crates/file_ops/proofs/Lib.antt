pub mod Words
mod Views
mod InPlace
mod Exact
mod Beside
