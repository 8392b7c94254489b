pub mod Tail
pub mod RowAdded
