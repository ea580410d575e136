pub mod Names
pub mod Curves
pub mod Lengths
pub mod EqualTimes
pub mod Raised
