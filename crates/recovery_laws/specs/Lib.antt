pub mod Change
pub mod Kept
pub mod Laws
pub mod Alike
pub mod OpeningSteps
pub mod OpeningLaws
