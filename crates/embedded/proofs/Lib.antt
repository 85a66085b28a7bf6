pub use Rattle.handler_threads.proofs.region_calls_laws as region_calls_laws
pub use Rattle.handler_threads.proofs as handler_threads_laws
pub mod Flushing
pub mod Later
pub mod Masking
