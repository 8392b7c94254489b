pub mod RevisionLaws
