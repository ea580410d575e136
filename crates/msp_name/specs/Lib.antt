pub mod Spellings
pub mod Items
pub mod Names
pub mod Reading
pub mod Printing
pub mod Faults
pub mod Limits
pub mod OneWay
