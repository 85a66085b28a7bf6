pub use Rattle.log_service.specs as log_service
pub mod Parts
pub mod Jobs
pub mod Histories
pub mod Hands
pub mod Marks
pub mod Draws
pub mod Tries
pub mod Passes
pub mod Puts
pub mod Calls
pub mod Answers
pub mod Logged
pub mod Met
