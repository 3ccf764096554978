pub mod Free
pub mod Refused
pub mod Entries
pub mod DirectiveEntries
pub mod EntryOf
