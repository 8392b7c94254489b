pub mod RangeLaws
pub mod HeaderLaws
pub mod ReplaceLaws
pub mod SpliceLaws
pub mod SectionLaws
