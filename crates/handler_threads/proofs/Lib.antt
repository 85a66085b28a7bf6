pub use Rattle.region_calls.proofs as region_calls_laws
pub mod Crossing
