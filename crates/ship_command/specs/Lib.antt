pub mod Words
pub mod Sinks
pub mod Shipped
pub mod Refusals
