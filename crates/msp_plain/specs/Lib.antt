pub mod Changes
pub mod Equal
pub mod Threshold
pub mod laws
