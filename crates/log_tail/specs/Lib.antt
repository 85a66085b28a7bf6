pub mod Position
pub mod Reads
pub mod Failures
pub mod Found
pub mod Given
pub mod Texts
