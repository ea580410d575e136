pub mod Turns
pub mod ChainSteps
mod LastRow
pub mod StepFacts
