pub mod Smith
pub mod Lawler
pub mod Moore
pub mod Tasks
