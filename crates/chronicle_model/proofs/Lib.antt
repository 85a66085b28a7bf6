pub mod Order
pub mod Grown
pub mod Shipped
pub mod Rows
