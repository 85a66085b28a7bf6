pub mod Rows
pub mod MadeLaws
pub mod Making
pub mod Counting
