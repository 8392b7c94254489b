pub mod RowLaws
pub mod StepLaws
pub mod CutLaws
pub mod LoopLaws
pub mod AnswerLaws
pub mod LineLaws
pub mod TextLaws
