pub mod Persons
pub mod Clerks
