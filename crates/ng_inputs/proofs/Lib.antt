pub mod Holding
pub mod Fetching
pub mod Sound
pub mod Accepting
pub mod Refusing
