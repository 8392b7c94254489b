pub mod Walking
pub mod Merging
