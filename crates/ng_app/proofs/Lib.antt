pub mod Json
pub mod Stops
pub mod Installed
pub mod Compiled
pub mod Bound
