pub mod Rows
pub mod Index
pub mod Answers
pub mod Others
