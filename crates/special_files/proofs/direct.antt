pub mod CommitDirect
