pub mod Text
pub mod Loaded
