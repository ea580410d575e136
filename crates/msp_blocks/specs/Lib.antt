pub mod Blocks
pub mod Filling
