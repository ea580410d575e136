pub mod Parts
pub mod Rows
pub mod Chains
pub mod Limits
