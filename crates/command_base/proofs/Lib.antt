pub mod Going
pub mod Pieces
pub mod ReadScript
pub mod Endings
pub mod Readers
