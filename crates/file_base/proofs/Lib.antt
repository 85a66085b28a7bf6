pub mod Looking
pub mod Pieces
