pub mod lists
pub mod costs
pub mod feasible
pub mod changes
pub mod bounds
