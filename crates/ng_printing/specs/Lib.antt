pub mod Lines
pub mod Left
pub mod EventStep
pub mod StepLines
pub mod StepSeen
