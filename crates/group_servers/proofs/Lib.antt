pub use Rattle.group_lists.proofs as group_lists_laws
pub use Rattle.handler_threads.proofs.region_calls_laws as region_calls_laws
pub use Rattle.handler_threads.proofs as handler_threads_laws
pub mod Disks
pub mod Recovers
pub mod Looking
pub mod Wrong
pub mod Firsts
pub mod Sound
pub mod Handing
pub mod Unused
pub mod Begins
pub mod Ends
