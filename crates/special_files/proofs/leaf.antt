pub mod PutLeaf
pub mod PutRun
pub mod Puts
