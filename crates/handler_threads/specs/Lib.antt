pub use Rattle.region_calls.specs.wal_split as wal_split
pub use Rattle.region_calls.specs.region_lock as region_lock
pub use Rattle.region_calls.specs as region_calls
pub use Rattle.region_calls.specs.log_service as log_service
pub mod Working
