pub mod FirstLaws
