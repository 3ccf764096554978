pub mod Applied
pub mod Purity
pub mod Evaluation
