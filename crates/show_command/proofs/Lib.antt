pub mod RegionLaws
pub mod Shows
