pub mod Orders
pub mod Prefixes
pub mod Pieces
