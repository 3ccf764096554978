pub mod Places
pub mod Edits
pub mod Law
pub mod Sound
