pub mod OptionMaps
