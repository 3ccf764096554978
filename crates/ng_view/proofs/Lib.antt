pub mod Pairs
pub mod FilterFaults
pub mod TreeFaults
pub mod TreeNodes
