pub mod Bytes
pub mod Numbers
pub mod Parts
pub mod JobName
pub mod Limits
