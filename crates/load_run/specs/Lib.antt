pub mod Words
pub mod Profile
pub mod Commands
