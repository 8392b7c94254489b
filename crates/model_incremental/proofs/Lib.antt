pub mod JoinedItems
pub mod Rejoined
pub mod Parts
pub mod Folded
pub mod Regather
