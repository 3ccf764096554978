pub mod Words
pub mod WordsOf
