pub mod Cases
pub mod Front
pub mod Refused
