pub use Rattle.script_run.proofs as script_run_laws
pub use Rattle.group_calls.proofs.region_calls_laws as region_calls_laws
pub use Rattle.group_calls.proofs.group_servers_laws as group_servers_laws
pub mod Ending
pub mod Evens
pub mod Held
pub mod Starts
pub mod Joins
pub mod Answered
pub mod Runs
pub mod Handled
pub mod Kept
pub mod Closes
pub mod Chosen
pub mod Seats
pub mod Backs
pub mod Slots
pub mod Assembled
