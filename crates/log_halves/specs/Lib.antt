pub use Rattle.log_device.specs as log_device
pub mod Names
pub mod Trucks
pub mod Items
pub mod Chains
pub mod Order
pub mod Props
pub mod Numbers
pub mod Moments
pub mod Halves
pub mod Moves
pub mod Ends
pub mod Steps
pub mod Counts
pub mod Commits
pub mod Ties
pub mod Begun
