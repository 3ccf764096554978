pub mod Seen
pub mod Table
pub mod Chunks
pub mod Now
pub mod Verdicts
pub mod Walks
pub mod Ended
pub mod Laws
