pub mod KeyLaws
pub mod ListLaws
pub mod AnswerLaws
