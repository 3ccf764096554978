pub mod Cutting
pub mod Pairs
pub mod Laws
pub mod Escapes
pub mod Parts
pub mod PartSpelling
