pub mod Looking
pub mod Refusal
pub mod Untold
