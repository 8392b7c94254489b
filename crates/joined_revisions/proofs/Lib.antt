pub mod HighestLaws
