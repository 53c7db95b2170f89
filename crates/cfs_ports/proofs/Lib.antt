mod Gathering
mod LineLemmas
mod PieceLemmas
