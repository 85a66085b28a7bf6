pub mod OneDamage
pub mod Leaving
pub mod Printing
pub mod Telling
