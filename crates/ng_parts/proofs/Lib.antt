pub mod PartLists
pub mod Joined
pub mod More
pub mod Within
pub mod Ranges
pub mod WholeFrom
pub mod WholeAt
pub mod Lookups
