pub mod Changes
pub mod Runs
pub mod ScopeRuns
pub mod ChildRun
pub mod FiringOf
pub mod Whole
