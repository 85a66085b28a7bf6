mod Cuts
mod Written
pub mod Ships
