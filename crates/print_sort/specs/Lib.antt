pub mod Sorting
pub mod Arranging
pub mod Merge
pub mod Runs
