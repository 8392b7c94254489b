pub mod Items
pub mod SortedItems
pub mod Combining
