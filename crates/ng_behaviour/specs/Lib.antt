pub mod Scopes
pub mod ScopeObjects
pub mod Listeners
pub mod Keys
