pub mod Happenings
pub mod Steps
pub mod Session
pub mod ReplyOf
pub mod Run
pub mod Doing
pub mod Laws
