pub mod Sessions
pub mod Cloaks
pub mod Turns
pub mod Camel
pub mod KeptRows
pub mod Bindings
