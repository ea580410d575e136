pub mod Classes
pub mod Bounds
pub mod Places
pub mod Placed
pub mod Taken
pub mod Most
pub mod Search
pub mod Assigned
