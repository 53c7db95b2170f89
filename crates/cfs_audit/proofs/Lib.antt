mod Lines
mod Followed
mod Verdicts
mod Words
