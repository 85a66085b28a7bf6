pub mod Finish
pub mod Load
pub mod Naming
