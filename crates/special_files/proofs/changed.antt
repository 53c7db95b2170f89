pub mod ChangedRun
pub mod ChangedTrees
pub mod Unlike
