pub mod Journal
pub mod Calls
pub mod Lawful
pub mod OneThread
pub mod Crash
pub mod Lines
