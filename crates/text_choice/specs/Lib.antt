pub mod Choice
pub mod RevisionBundle
pub mod Revisions
pub mod Windows
pub mod Quotas
pub mod Compute
