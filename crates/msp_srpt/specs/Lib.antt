pub mod Shortest
pub mod EqualHeads
pub mod Running
