pub mod TplNames
pub mod Kept
pub mod DirectivesOf
pub mod ComposedOf
