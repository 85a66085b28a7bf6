pub mod MarkTies
pub mod LayerLaws
pub mod StateLaws
pub mod Regions
pub mod CallLaws
