pub mod AllShown
pub mod Crew
