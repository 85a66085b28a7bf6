pub use Rattle.handler_threads.specs.wal_split as wal_split
pub use Rattle.handler_threads.specs.region_lock as region_lock
pub use Rattle.handler_threads.specs.region_calls as region_calls
pub use Rattle.handler_threads.specs.log_service as log_service
pub use Rattle.handler_threads.specs as handler_threads
pub mod Settings
pub mod Flushers
pub mod Sessions
