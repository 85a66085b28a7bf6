pub mod Spelling
pub mod Untold
