pub mod Lists
pub mod Joins
pub mod Before
pub mod HornBest
pub mod Loads
pub mod Picks
