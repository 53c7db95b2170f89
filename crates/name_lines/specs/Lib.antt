pub mod Spoken
pub mod Paths
pub mod Answers
pub mod Runs
pub mod Printed
pub mod Walking
