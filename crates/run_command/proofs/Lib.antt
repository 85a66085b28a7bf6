pub use Rattle.recover_command.proofs as recover_command_laws
pub mod Leaving
pub mod Fitting
pub mod Standing
pub mod Telling
