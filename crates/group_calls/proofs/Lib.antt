pub use Rattle.script_handlers.proofs as script_handlers_laws
pub use Rattle.group_servers.proofs.region_calls_laws as region_calls_laws
pub use Rattle.group_servers.proofs as group_servers_laws
pub mod Seats
pub mod There
pub mod Elsewhere
pub mod Handlers
pub mod Doing
pub mod Gets
pub mod Crossing
