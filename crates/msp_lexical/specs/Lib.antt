pub mod Lexical
pub mod Steps
pub mod Slots
pub mod Counts
