pub mod Rows
pub mod Order
pub mod Passing
pub mod Again
pub mod Limit
