pub mod Effect
pub mod Reader
