pub mod Keeping
pub mod Filtered
