mod Numbers
pub mod NumberTexts
pub mod NameLists
mod Padding
