pub mod First
pub mod TreeOf
pub mod Bury
pub mod Lengths
pub mod Others
pub mod Ahead
pub mod Sound
