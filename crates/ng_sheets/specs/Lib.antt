pub mod Board
pub mod Sheet
pub mod BoardLaws
