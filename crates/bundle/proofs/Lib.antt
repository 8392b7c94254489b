pub mod BundleLaws
pub mod MarkLaws
