pub mod Later
pub mod Copied
pub mod ActLaws
pub mod Silent
pub mod Whole
pub mod Plain
pub mod Thinner
