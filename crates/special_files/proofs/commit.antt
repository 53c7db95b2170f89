pub mod CommitAfter
pub mod CommitCalls
pub mod CommitEntries
pub mod CommitFlips
pub mod CommitRoles
pub mod CommitRuns
pub mod CommitStore
pub mod CommitWhole
