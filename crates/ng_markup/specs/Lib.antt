pub mod Tables
pub mod Forest
pub mod Attributes
