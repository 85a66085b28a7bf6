pub use Rattle.wal_split.specs as wal_split
pub use Rattle.recover_command.specs as recover_command
pub mod Lines
pub mod Compacted
pub mod Refusals
