pub mod PlaceLaws
pub mod TabulateLaws
pub mod WordLaws
pub mod StoreLaws
pub mod BinarySearch
