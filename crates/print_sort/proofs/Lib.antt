pub mod MergeLaws
pub mod PermutedLaws
pub mod PrintedLaws
pub mod RunLaws
pub mod ArrangeLaws
pub mod MergingLaws
pub mod SortedLaws
