pub mod Result
pub mod Compare
pub mod Keyed
pub mod Gathering
pub mod OnePass
