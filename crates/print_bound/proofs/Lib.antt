pub mod EachLaws
pub mod LengthLaws
pub mod ReportLaws
mod SumLaws
pub mod RowLaws
