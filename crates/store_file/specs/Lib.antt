pub mod Calls
pub mod Open
pub mod Reading
pub mod ReadingLaws
pub mod Whole
pub mod Text
