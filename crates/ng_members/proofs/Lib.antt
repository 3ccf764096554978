pub mod Places
pub mod Stand
pub mod Faults
pub mod Indices
