mod Chunks
mod Images
mod Lifts
