pub use Rattle.group_lists.specs as group_lists
pub use Rattle.wal_split.specs as wal_split
pub use Rattle.handler_threads.specs.region_lock as region_lock
pub use Rattle.handler_threads.specs.region_calls as region_calls
pub use Rattle.handler_threads.specs.log_service as log_service
pub use Rattle.handler_threads.specs as handler_threads
pub mod Refusals
pub mod Recovering
pub mod Checking
pub mod Beginning
pub mod Passes
pub mod Helping
pub mod Dealing
pub mod Starting
pub mod Closing
