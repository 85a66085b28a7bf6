pub use Rattle.wal_split.specs as wal_split
pub use Rattle.found_files.specs as found_files
pub mod Cuts
pub mod Bases
pub mod Cleared
pub mod Ready
pub mod Stored
pub mod Regions
pub mod Names
pub mod Whole
pub mod Opened
pub mod Dealt
pub mod Alone
