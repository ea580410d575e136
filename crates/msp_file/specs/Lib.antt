pub mod instance
pub mod schedule
pub mod Laws
