pub mod Members
pub mod Names
pub mod Methods
pub mod Leaves
pub mod Callees
