pub use Rattle.embedded.specs.region_lock as region_lock
pub use Rattle.embedded.specs.region_calls as region_calls
pub mod Seats
pub mod Deeds
pub mod Receipts
pub mod Ends
