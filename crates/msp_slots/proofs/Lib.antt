mod SlotSteps
pub mod Progress
mod Listed
pub mod Seats
mod Filling
pub mod Begins
pub mod LeastCosts
pub mod PieceJobs
pub mod JobPieces
pub mod UnitPieces
pub mod ListSchedules
pub mod SlotPlaces
pub mod Places
