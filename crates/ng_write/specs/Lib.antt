pub mod Written
pub mod Storing
pub mod Assigning
pub mod Making
pub mod Changing
pub mod Events
pub mod Reading
pub mod Facts
