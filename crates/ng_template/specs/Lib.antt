pub mod Repeating
pub mod Around
pub mod Compiles
pub mod AroundOf
pub mod Order
pub mod Laws
