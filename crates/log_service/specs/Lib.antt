pub use Rattle.log_device.specs as log_device
pub use Rattle.log_halves.specs as log_halves
pub use Rattle.log_halves.specs.Names as Names
pub use Rattle.log_halves.specs.Trucks as Trucks
pub use Rattle.log_halves.specs.Items as Items
pub use Rattle.log_halves.specs.Numbers as Numbers
pub use Rattle.log_halves.specs.Moments as Moments
pub use Rattle.log_halves.specs.Halves as Halves
pub use Rattle.log_halves.specs.Moves as Moves
pub use Rattle.log_halves.specs.Ends as Ends
pub use Rattle.log_halves.specs.Steps as Steps
pub use Rattle.log_halves.specs.Counts as Counts
pub use Rattle.log_halves.specs.Begun as Begun
pub mod Places
pub mod Turns
pub mod Tallies
pub mod Bundles
pub mod Closed
