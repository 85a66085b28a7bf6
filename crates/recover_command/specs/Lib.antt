pub use Rattle.wal_split.specs as wal_split
pub use Rattle.region_replay.specs as region_replay
pub use Rattle.found_files.specs as found_files
pub mod Lines
pub mod Recovered
pub mod Refusals
