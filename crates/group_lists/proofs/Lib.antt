pub mod Each
pub mod Picking
