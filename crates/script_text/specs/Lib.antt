pub mod Grouping
pub mod State
pub mod Why
