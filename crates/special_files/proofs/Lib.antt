pub mod Amid
pub mod Begun
pub mod CommitDone
pub mod CommitDraft
pub mod CommitLeft
pub mod Endings
pub mod Fresh
pub mod Levels
pub mod Made
mod Marks
pub mod Meant
pub mod PutCall
pub mod PutStore
pub mod Refusals
pub mod SlotNeed
pub mod Trees
pub mod View
mod Ways
pub mod Words
pub mod WriteLeaf
