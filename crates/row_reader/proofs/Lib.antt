pub mod Splits
pub mod Columns
pub mod Families
pub mod Passes
