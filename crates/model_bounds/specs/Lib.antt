pub mod Bounds
pub mod Claims
pub mod Compute
