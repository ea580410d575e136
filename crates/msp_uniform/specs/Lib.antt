pub mod Limits
pub mod Uniform
pub mod Quotients
pub mod Prefixes
pub mod Segments
pub mod Runs
pub mod Plans
pub mod Answers
