pub mod Opened
pub mod Opening
pub mod Printing
pub mod Telling
