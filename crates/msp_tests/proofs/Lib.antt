pub mod Small
pub mod SmallMatrix
