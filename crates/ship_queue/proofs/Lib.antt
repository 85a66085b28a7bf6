pub mod Told
mod Each
pub mod Sends
pub mod Behind
pub mod Records
pub mod Steps
pub mod Places
mod ReadingLaws
pub mod Going
mod Ends
mod Leads
mod Stops
mod HalfLaws
mod GoneLaws
