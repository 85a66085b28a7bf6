pub use Rattle.pass_calls.proofs.log_service_laws as log_service_laws
pub mod Sown
pub mod Marks
pub mod Begun
pub mod Seated
pub mod NamedSeeds
pub mod OwnNames
pub mod Knowing
pub mod Calling
pub mod Using
pub mod Paging
pub mod ClosedLaws
pub mod LeavesLaws
pub mod BackLaws
pub mod TakenLaws
pub mod Loops
