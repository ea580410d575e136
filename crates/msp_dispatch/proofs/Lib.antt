pub mod Picks
pub mod evidence
