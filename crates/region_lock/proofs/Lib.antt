pub use Rattle.log_service.proofs as log_service_laws
pub mod Lists
pub mod Numbers
pub mod Ties
pub mod Parts
pub mod Shows
pub mod Knowns
pub mod ScanLaws
pub mod Lifts
pub mod Meeting
pub mod Places
pub mod NewPart
