pub mod MainDelta
pub mod Upserted
