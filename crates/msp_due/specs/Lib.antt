pub mod Due
pub mod Steps
pub mod laws
