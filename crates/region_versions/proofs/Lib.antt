pub mod Fronts
pub mod Adding
pub mod Rises
pub mod Crossing
