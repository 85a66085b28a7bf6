pub mod Spent
pub mod Headline
pub mod Closed
