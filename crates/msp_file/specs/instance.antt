pub mod Answers
pub mod ArcFlags
pub mod Reading
pub mod Steps
