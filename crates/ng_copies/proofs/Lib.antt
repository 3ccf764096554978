pub mod Shifts
pub mod Inclusion
