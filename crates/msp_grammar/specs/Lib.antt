pub mod Layout
pub mod ScheduleText
pub mod InstanceText
pub mod Printing
pub mod Limits
pub mod lines
