pub mod CountLaws
pub mod ColumnLaws
pub mod LineLaws
pub mod SumLaws
