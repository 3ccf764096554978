pub mod BoardKeys
