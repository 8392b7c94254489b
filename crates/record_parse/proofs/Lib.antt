pub mod FieldLaws
pub mod EndLaws
pub mod LineLaws
pub mod NumberLaws
pub mod TagLaws
