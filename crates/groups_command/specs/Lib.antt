pub mod Status
pub mod Words
pub mod Disks
pub mod Carried
pub mod Ends
