pub use Rattle.region_lock.proofs as region_lock_laws
pub use Rattle.region_lock.proofs.log_service_laws as log_service_laws
pub mod PutLaws
pub mod WatchLaws
pub mod FlushLaws
mod EvidenceRows
