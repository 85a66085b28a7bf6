pub use Rattle.run_command.specs as run_command
pub mod Statuses
pub mod Counted
pub mod Ends
