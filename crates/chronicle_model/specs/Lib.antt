pub mod Chronicle
pub mod Growth
pub mod Shipping
