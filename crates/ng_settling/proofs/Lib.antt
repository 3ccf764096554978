pub mod Names
pub mod Writes
pub mod Written
pub mod Unset
