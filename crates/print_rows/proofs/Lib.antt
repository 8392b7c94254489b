pub mod EmitLaws
pub mod LentLaws
pub mod PassLaws
pub mod LengthLaws
