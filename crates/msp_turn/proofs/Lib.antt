mod Moments
mod ReversalBounds
pub mod EndOrder
pub mod JobPieces
pub mod LineLimits
pub mod BroughtBack
pub mod ByEnds
pub mod ExchangeSteps
pub mod FromLast
