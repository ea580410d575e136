pub mod CertificateText
pub mod Reading
pub mod Steps
pub mod Answers
pub mod Limits
