pub mod Pieces
pub mod Seating
pub mod Earliest
pub mod Filling
pub mod ListSchedule
pub mod Steps
pub mod Places
