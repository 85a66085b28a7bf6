pub mod Filling
pub mod OneDamage
pub mod Pairs
pub mod Standing
pub mod Stores
pub mod Texts
pub mod Writing
pub mod FieldLaws
