pub mod Horn
pub mod Joining
