mod Pairs
mod Calls
mod Counts
mod Replays
mod Images
mod Words
