pub mod Aims
pub mod Fired
pub mod Performed
