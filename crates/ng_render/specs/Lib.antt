pub mod OverOf
pub mod Free
