pub mod Wrap
pub mod Laying
