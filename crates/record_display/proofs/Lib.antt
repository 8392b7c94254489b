pub mod FieldLaws
pub mod RecordFieldLaws
pub mod LineLaws
mod CountLaws
