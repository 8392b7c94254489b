pub mod ScanLaws
pub mod StepLaws
pub mod InsertLaws
