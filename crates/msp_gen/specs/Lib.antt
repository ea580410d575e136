pub mod Limits
pub mod Draws
pub mod Generated
pub mod Faults
