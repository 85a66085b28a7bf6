pub mod Projected
pub mod Parts
pub mod Assembled
pub mod OneGroup
pub mod Rows
