pub mod Carried
pub mod Moments
pub mod Steps
