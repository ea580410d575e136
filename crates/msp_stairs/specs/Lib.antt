pub mod Stairs
pub mod Bounds
pub mod Steps
pub mod laws
