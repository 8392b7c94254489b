pub mod Regather
pub mod Folded
