pub mod Lists
mod Passes
pub mod Filling
pub mod Owners
pub mod Bounds
pub mod Relaxed
pub mod Growth
pub mod Gathering
pub mod Passing
pub mod Lowering
pub mod Moves
pub mod Views
pub mod Placements
pub mod Least
pub mod Totals
pub mod Choices
pub mod Squares
pub mod Normal
