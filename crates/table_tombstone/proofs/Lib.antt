pub mod LiveLaws
pub mod CountLaws
pub mod MarkLaws
pub mod CompactLaws
