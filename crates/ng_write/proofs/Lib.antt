pub mod More
pub mod Filled
pub mod Steps
pub mod Placed
pub mod Extending
pub mod Read
pub mod Only
pub mod ReadBack
