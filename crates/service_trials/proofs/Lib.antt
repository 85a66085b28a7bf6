pub mod Captured
pub mod CrewLaws
pub mod Empty
pub mod OneMore
pub mod Sent
