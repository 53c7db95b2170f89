mod Worked
mod Runs
mod Refusals
mod Vanishes
mod DraftsWorked
mod Needs
mod Scripts
pub mod NumberLists
pub mod RootBlocks
pub mod Entries
pub mod Outcomes
pub mod Legal
pub mod Came
pub mod Tests
pub mod Reached
pub mod Graphs
pub mod Rising
pub mod Objects
pub mod WellGraphs
pub mod Takes
pub mod Grants
pub mod Drafts
pub mod WellStates
pub mod WellGrants
pub mod Vanishing
pub mod KeepsStates
pub mod Drawn
mod Places
mod ServerChanges
mod Beside
mod Unkept
mod Spreading
mod Rises
mod Remembered
mod Words
