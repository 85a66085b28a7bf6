pub mod Codes
pub mod Outcomes
pub mod Versions
pub mod Layers
pub mod States
pub mod Calls
