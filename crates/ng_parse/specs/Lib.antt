pub mod TreeOf
pub mod ProgramOf
