pub mod Entries
pub mod Tables
pub mod Walk
pub mod Links
pub mod Outlook
pub mod Relation
pub mod Frontier
pub mod Standing
