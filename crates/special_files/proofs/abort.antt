pub mod CommitAbort
