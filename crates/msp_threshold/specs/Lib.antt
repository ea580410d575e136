pub mod Limits
pub mod Squeezed
pub mod Search
pub mod laws
