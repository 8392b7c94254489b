pub mod WindowLaws
pub mod LineLaws
