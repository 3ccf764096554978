pub mod Blocks
pub mod Repeats
pub mod RowsKnown
pub mod SiteFires
pub mod FireOf
pub mod Fires
pub mod Serving
pub mod Bindings
