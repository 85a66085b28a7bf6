pub mod KeyLaws
pub mod TreeLaws
pub mod PourLaws
pub mod LowerLaws
pub mod OrderLaws
pub mod NotedLaws
pub mod BeginLaws
pub mod BatchLaws
pub mod StepLaws
pub mod CallLaws
pub mod FileLaws
pub mod RegionLaws
pub mod LiveLaws
pub mod Rows
pub mod Crossing
mod TestLaws
