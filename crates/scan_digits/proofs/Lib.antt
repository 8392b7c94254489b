pub mod WordLaws
pub mod ShortLaws
