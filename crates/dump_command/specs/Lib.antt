pub mod Dumped
pub mod Found
