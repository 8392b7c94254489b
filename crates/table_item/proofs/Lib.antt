pub mod CompareLaws
pub mod SearchLaws
pub mod CountLaws
pub mod RowLaws
pub mod AllLaws
