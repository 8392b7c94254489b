pub mod ResortLaws
pub mod ItemLaws
pub mod KeepLaws
pub mod BoundLaws
pub mod RowsLaws
pub mod KeptLaws
pub mod SectionLaws
pub mod ThinLaws
