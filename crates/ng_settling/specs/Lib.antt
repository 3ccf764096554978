pub mod Inputs
pub mod ListenerRuns
pub mod Settling
