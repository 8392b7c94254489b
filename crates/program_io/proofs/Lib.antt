pub mod RefusedLaws
pub mod AnswerLaws
