pub mod Texts
pub mod Committed
pub mod Pieces
pub mod Going
