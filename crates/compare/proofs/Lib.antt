pub mod PrefixLaws
pub mod CompareLaws
pub mod SplitLaws
pub mod ComponentLaws
pub mod PlaceLaws
pub mod PathLaws
pub mod NameLaws
pub mod OrderLaws
