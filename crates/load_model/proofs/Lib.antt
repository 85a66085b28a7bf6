pub mod Empty
pub mod Members
pub mod Tallies
pub mod Cells
pub mod Puts
pub mod Loads
pub mod Leaves
