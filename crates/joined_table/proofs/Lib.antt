pub mod TableLaws
pub mod OneLaws
pub mod GatherLaws
pub mod BundleLaws
