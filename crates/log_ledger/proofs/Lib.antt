pub mod Sets
pub mod Sums
mod Chains
mod Filters
mod Families
mod Highest
mod Steps
pub mod Few
mod Logs
mod Staged
mod Committed
mod Flushed
mod Narrowed
mod Cells
mod Orders
mod Left
mod Bases
mod Begun
pub mod DrawnSums
