pub mod Orders
pub mod ViewParts
pub mod Unfolds
pub mod Sameness
pub mod DeepTexts
