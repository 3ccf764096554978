pub mod CutSteps
pub mod EscapeSteps
pub mod PartLaws
