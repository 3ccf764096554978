pub mod Paths
pub mod Calls
