mod Found
mod Seen
pub mod Counted
mod Refused
mod Behind
mod Texts
