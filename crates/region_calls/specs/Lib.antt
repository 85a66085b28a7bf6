pub use Rattle.region_replay.specs.wal_split as wal_split
pub use Rattle.pass_calls.specs.region_lock as region_lock
pub use Rattle.pass_calls.specs.log_service as log_service
pub mod Bases
pub mod Seeds
pub mod Cleared
pub mod Store
pub mod Opening
pub mod Recovered
pub mod Names
pub mod Passes
pub mod Hands
pub mod Deals
pub mod Named
pub mod Served
pub mod Answers
pub mod Closes
pub mod Wordings
pub mod Backs
