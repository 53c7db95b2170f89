pub mod Leaves
pub mod Colours
pub mod Steps
pub mod Marking
pub mod Pace
pub mod Meanwhile
