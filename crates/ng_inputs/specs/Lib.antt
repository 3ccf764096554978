pub mod Files
pub mod Names
pub mod Refusals
pub mod Acts
pub mod Free
pub mod InputsOf
