pub mod Messages
pub mod Kept
pub mod Sent
pub mod Course
pub mod Refusals
pub mod Shipping
pub mod Halves
pub mod Gone
