pub use Rattle.script_handlers.specs as script_handlers
pub use Rattle.group_servers.specs.region_lock as region_lock
pub use Rattle.group_servers.specs.region_calls as region_calls
pub use Rattle.group_servers.specs.log_service as log_service
pub use Rattle.group_servers.specs.handler_threads as handler_threads
pub use Rattle.group_servers.specs as group_servers
pub mod Servers
pub mod Passes
pub mod Helpers
pub mod Serving
