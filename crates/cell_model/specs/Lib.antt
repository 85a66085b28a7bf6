pub mod Lists
pub mod Cell
pub mod Batch
pub mod Order
pub mod Join
pub mod Merge
pub mod Codes
pub mod Halves
