pub mod Sections
pub mod Splice
