pub mod Words
pub mod Fresh
pub mod FreshInstances
pub mod Counted
pub mod Choices
