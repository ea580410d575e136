pub mod Shops
pub mod Unrelated
pub mod Machines
pub mod laws
