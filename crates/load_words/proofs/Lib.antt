pub mod Building
pub mod OptionReads
pub mod Spelled
pub mod Taken
