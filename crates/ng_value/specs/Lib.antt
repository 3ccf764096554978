pub mod Seen
pub mod Snaps
pub mod Taken
