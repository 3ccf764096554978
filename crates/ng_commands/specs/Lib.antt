pub mod Settled
pub mod Commands
pub mod BetweenSteps
pub mod EventObject
pub mod Handling
pub mod HandlingOf
