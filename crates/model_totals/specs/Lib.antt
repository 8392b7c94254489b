pub mod Totals
pub mod Compute
pub mod Laws
