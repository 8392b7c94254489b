pub mod InterleavedLaws
pub mod LoopLaws
pub mod PositionLaws
pub mod OrderLaws
