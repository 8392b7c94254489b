pub mod NameLaws
pub mod SearchLaws
