pub mod Walked
pub mod WalkLaw
pub mod Slots
