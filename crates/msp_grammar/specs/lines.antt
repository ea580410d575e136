pub mod Answers
pub mod Costs
pub mod Faults
pub mod Reading
pub mod Steps
