pub mod ItemLaws
pub mod PlaceLaws
pub mod MergeLaws
pub mod RangeLaws
pub mod InsertLaws
pub mod UpsertLaws
