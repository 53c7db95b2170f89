pub mod Created
pub mod NewRoots
