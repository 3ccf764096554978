pub mod Paths
pub mod ScopeTree
pub mod Grown
pub mod Dying
pub mod NextScope
pub mod ScopeLaws
