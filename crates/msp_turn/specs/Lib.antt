pub mod Turned
pub mod Reversal
pub mod LinedUp
pub mod Exchanged
pub mod Ends
pub mod laws
