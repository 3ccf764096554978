pub mod Stands
pub mod Names
pub mod Sound
pub mod Apart
