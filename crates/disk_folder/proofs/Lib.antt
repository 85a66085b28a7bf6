pub mod Dashes
pub mod OneName
