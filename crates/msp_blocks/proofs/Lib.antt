pub mod Lists
pub mod Idle
pub mod Fill
pub mod Steps
pub mod Bound
pub mod Made
