pub use Rattle.region_lock.specs as region_lock
pub use Rattle.region_lock.specs.log_service as log_service
