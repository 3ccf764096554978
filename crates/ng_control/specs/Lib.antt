pub mod Typed
pub mod State
pub mod Shown
pub mod Laws
pub mod Kept
