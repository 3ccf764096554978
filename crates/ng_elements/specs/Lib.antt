pub mod Plain
pub mod Elements
pub mod HeadOf
pub mod Using
pub mod ReadOf
