pub mod Lists
pub mod Choosing
