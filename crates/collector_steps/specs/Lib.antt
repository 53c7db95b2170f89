pub mod Scan
pub mod Steady
pub mod Sweep
pub mod Collecting
pub mod Left
pub mod Swept
