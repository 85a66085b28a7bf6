pub mod Commits
pub mod Committing
pub mod Framed
pub mod Framing
pub mod Ending
pub mod ReplyLaws
