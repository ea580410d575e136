pub mod Late
pub mod Limits
pub mod Values
pub mod Steps
