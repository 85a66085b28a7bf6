pub mod Spoken
pub mod Stamps
pub mod Why
