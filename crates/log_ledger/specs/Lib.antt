pub mod History
pub mod Numbers
pub mod Counted
pub mod Bases
