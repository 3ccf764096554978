pub mod PlainLists
pub mod Specs
pub mod Templated
pub mod LastMade
pub mod Fitting
