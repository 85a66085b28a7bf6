pub mod Names
pub mod Steps
pub mod Candidates
pub mod Played
pub mod Rooms
pub mod SafeSteps
pub mod SafeNoted
