pub mod Limits
pub mod Split
pub mod Square
pub mod Steps
