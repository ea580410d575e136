pub mod CertificateLimits
mod CertificatePrinting
mod ColumnLaws
mod JobLists
mod KindLaws
pub mod KindTexts
mod LineFaults
mod ListedLaws
mod NumberedLaws
mod OneWay
mod Readings
mod SegmentLaws
mod TextLaws
