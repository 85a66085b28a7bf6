pub use Rattle.log_halves.proofs.Committed as Committed
pub mod Numbers
pub mod Sees
pub mod SeatLaws
pub mod TallyLaws
pub mod PushedLaws
pub mod CloseLaws
pub mod IdlePasses
pub mod Popped
pub mod FilesLeft
pub mod Crossing
mod EvidenceRows
