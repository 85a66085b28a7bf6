pub mod Seating
pub mod Doing
pub mod Receipts
pub mod Elapsed
pub mod Ending
