pub mod Bindings
pub mod Sorts
pub mod Ranks
pub mod Reach
