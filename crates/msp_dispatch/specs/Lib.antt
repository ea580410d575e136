pub mod Solved
pub mod Dispatch
pub mod Pick
pub mod Certify
pub mod Shown
