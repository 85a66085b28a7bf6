pub mod Compacting
pub mod Ready
pub mod Refusals
pub mod Plan
