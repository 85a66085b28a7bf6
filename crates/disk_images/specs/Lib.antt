pub mod Crash
pub mod Calls
pub mod OneFile
pub mod Moved
pub mod Gate
pub mod Settled
