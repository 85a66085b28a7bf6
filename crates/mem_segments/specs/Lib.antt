pub mod Codes
pub mod Draft
pub mod Layers
pub mod Leader
pub mod Prefix
pub mod Shared
pub mod Walk
