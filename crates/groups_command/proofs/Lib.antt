pub mod Pairs
pub mod Printing
pub mod Closes
pub mod Leaving
pub mod Standing
pub mod Telling
