pub mod Links
pub mod LinkingOf
pub mod Attending
pub mod AttendingOf
pub mod LinkBindings
pub mod Worn
