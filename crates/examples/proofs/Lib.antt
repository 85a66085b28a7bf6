pub mod Persons
pub mod Putting
pub mod Clerks
