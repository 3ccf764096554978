pub mod Chosen
pub mod Tracking
pub mod TrackingOf
pub mod Splices
pub mod RepeatRows
pub mod RepeatsOf
pub mod RowsInOrder
