pub mod Doubles
pub mod HeadSteps
pub mod ProgramSteps
pub mod Dividers
pub mod Cuts
pub mod HeadLaws
pub mod RepeatLaws
pub mod WordSteps
