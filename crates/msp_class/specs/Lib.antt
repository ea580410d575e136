pub mod Crit
pub mod Env
pub mod Limits
pub mod Order
pub mod Rank
pub mod Sums
