pub use Rattle.script_run.specs as script_run
pub use Rattle.group_calls.specs.region_calls as region_calls
pub use Rattle.group_calls.specs as group_calls
pub use Rattle.group_calls.specs.group_servers as group_servers
pub mod Helpers
pub mod Dealing
pub mod Starting
pub mod Closing
pub mod Found
pub mod Handing
pub mod Seating
pub mod Ran
pub mod Ends
pub mod Ended
