pub mod Kept
pub mod Counted
pub mod Telling
pub mod Lines
pub mod Running
pub mod Damages
