pub mod Revisions
