pub mod SpanLaws
pub mod WellLaws
pub mod QueryLaws
pub mod JoinLaws
pub mod CallLaws
