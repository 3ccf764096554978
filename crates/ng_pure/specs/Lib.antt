pub mod Showing
pub mod Patterns
pub mod Pure
