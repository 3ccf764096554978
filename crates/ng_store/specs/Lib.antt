pub mod NamesOf
pub mod ObjectOf
pub mod SetNames
pub mod Answers
pub mod Json
