pub mod Passing
pub mod Prices
pub mod Search
pub mod View
pub mod Square
pub mod Given
pub mod Limits
pub mod laws
