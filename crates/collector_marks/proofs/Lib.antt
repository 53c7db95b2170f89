mod Words
mod Counts
mod Cursors
