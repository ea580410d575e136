pub mod Records
pub mod Results
pub mod Reading
pub mod Faults
pub mod Limits
pub mod Laws
