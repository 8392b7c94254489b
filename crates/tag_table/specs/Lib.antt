pub mod Kinds
pub mod Written
pub mod Rules
pub mod Loading
pub mod Tags
