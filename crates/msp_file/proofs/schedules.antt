pub mod LineFaults
pub mod PieceLaws
pub mod PieceLines
pub mod Readings
pub mod ScheduleLaws
