pub mod Held
pub mod Links
pub mod Unflushed
