pub mod PutLaws
pub mod OverLaws
pub mod DecimalLaws
pub mod PowerLaws
pub mod PairLaws
