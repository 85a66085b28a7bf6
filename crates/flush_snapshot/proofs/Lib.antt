pub mod Going
pub mod Cuts
pub mod Holds
pub mod Moments
